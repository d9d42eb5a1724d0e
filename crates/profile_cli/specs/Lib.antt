pub mod Contents
pub mod Task
pub mod Output
pub mod Outcomes
pub mod Ends
pub mod FilesRead
