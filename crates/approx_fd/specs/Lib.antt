pub mod Removal
pub mod Approximate
pub mod Search
pub mod Sweeps
pub mod Laws
