pub mod AgreeBits
pub mod AllPairs
pub mod Concerning
pub mod EndedRows
pub mod FoundPairs
pub mod LiveRows
pub mod Witnesses
