pub mod Steps
pub mod Pairs
pub mod Folds
pub mod Rows
pub mod Included
pub mod RowParts
