pub mod Marking
pub mod Firsts
pub mod Parts
