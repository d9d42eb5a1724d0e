pub mod Agreeing
pub mod Partners
pub mod Spread
pub mod Window
