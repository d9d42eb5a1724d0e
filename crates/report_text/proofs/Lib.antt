pub mod LineText
pub mod ColumnsText
pub mod NumberTable
pub mod PlainText
pub mod PlainColumns
pub mod Numbered
pub mod Marks
pub mod MarksText
