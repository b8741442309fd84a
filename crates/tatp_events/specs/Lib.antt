pub mod RefusalText
pub mod Answers
