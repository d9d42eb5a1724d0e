pub mod Core
pub mod Steps
pub mod Sound
pub mod Histories
pub mod Laws
pub mod NewLists
pub mod Evidences
