pub mod Laid
pub mod Coded
