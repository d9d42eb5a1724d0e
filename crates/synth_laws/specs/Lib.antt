pub mod Keeping
pub mod ThirdNormal
pub mod Joined
pub mod Referred
