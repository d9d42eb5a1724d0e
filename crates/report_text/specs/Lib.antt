pub mod Line
pub mod Field
pub mod Numbers
pub mod Report
pub mod Inclusions
pub mod Tables
pub mod Outcome
pub mod Certificate
