pub mod Reach
pub mod Needed
pub mod Around
pub mod Kept
pub mod Bernstein
pub mod CoversReach
pub mod Joining
pub mod Referring
