pub mod Blocks
pub mod Made
pub mod Rows
pub mod Tables
pub mod Texts
