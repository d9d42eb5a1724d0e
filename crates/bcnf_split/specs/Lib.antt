pub mod Bcnf
pub mod Split
pub mod Inside
pub mod Search
pub mod Laws
