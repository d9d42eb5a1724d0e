pub mod Files
pub mod Ends
pub mod Commands
pub mod Storing
pub mod Lossless
