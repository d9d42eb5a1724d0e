pub mod Synthesize
pub mod Tasks
