pub mod LineFields
pub mod LineText
pub mod AnswerText
pub mod HomeText
