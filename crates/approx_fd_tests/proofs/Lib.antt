pub mod Agreeing
pub mod PlainSteps
