pub mod NaturalJoin
pub mod Parts
pub mod Joining
pub mod Indexed
pub mod Lossless
