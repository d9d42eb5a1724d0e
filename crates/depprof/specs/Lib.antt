pub mod Held
pub mod Faults
pub mod Words
pub mod Standard
