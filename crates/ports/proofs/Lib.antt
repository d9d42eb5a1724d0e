pub mod Counting
pub mod Moving
pub mod Contents
pub mod Shelves
pub mod Places
pub mod Opened
