pub mod ListInclusions
pub mod Laws
pub mod Unary
pub mod Levels
pub mod Tables
pub mod Numbering
pub mod Keys
