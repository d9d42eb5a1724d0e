pub mod Certified
pub mod Tasks
