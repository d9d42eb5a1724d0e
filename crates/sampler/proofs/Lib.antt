pub mod Agreeing
pub mod Among
pub mod Between
pub mod Lasts
pub mod Pairs
pub mod Tables
pub mod Together
