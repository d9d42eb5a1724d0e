pub mod Histories
pub mod Counts
pub mod Keeps
pub mod Turning
pub mod Homes
pub mod Uniting
pub mod Passing
pub mod Numbers
