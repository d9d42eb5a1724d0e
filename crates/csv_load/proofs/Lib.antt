pub mod LeadingMarks
pub mod Steps
pub mod FirstRefused
pub mod WideRecords
pub mod Parting
pub mod Cuts
pub mod RowsBelow
