pub mod AllMarked
pub mod Cands
pub mod Lists
pub mod Marks
pub mod Pairs
pub mod Place
pub mod Sizes
