pub mod Inclusions
pub mod Including
pub mod Texts
pub mod SessionAnswers
pub mod Witnessed
pub mod Waits
