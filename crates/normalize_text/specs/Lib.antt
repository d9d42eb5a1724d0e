pub mod Normalize
pub mod Joined
pub mod Demo
pub mod Tasks
