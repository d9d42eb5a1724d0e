pub mod First
pub mod Marked
