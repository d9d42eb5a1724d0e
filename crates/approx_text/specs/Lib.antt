pub mod Approximate
pub mod Tasks
