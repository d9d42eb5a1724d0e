pub mod Reports
pub mod Session
pub mod Items
pub mod Columns
pub mod Including
pub mod Waiting
pub mod Tasks
