-- definitions
pub mod ColSet
pub mod Target
pub mod Minimal
pub mod Evidence
pub mod Listing
pub mod Laws
-- lemmas, which stand here since the `impl` of `Ord` cites them
pub mod Members
pub mod Columns
pub mod Lists
pub mod Subsets
pub mod AllSets
