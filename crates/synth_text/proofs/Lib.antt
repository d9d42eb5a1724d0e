pub mod Chosen
pub mod Written
