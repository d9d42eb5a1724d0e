pub mod Phases
pub mod Crews
pub mod Work
pub mod Benches
