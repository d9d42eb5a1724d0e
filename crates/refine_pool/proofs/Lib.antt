pub mod Passing
pub mod Quiet
pub mod Feeding
pub mod Ending
pub mod Crewing
pub mod Working
pub mod Left
