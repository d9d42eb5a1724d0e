pub mod Branches
pub mod BySize
pub mod Drafts
pub mod Growth
pub mod Members
