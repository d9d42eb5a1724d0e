pub mod Inclusions
pub mod Tasks
