pub mod Workers
pub mod Found
pub mod Parse
pub mod Bare
pub mod TheApp
