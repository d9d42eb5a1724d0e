pub mod Tables
pub mod Drawn
pub mod Joined
