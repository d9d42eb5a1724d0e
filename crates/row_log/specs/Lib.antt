pub mod Codes
pub mod Column
pub mod Table
pub mod Applying
pub mod Halting
pub mod Distinct
pub mod Marked
pub mod Live
