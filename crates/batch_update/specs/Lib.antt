pub mod RowNumber
pub mod Kind
pub mod Entry
pub mod Changes
pub mod Numbers
pub mod Wide
pub mod Coming
pub mod Laws
