pub mod Pairs
pub mod Tree
pub mod Walks
