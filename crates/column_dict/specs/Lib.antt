pub mod Coding
pub mod Layout
pub mod Text
