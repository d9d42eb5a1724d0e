pub mod Tells
pub mod Agreeing
pub mod Judging
pub mod PlainTests
pub mod Completed
pub mod Reaching
