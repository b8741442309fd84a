pub mod WordLaws
pub mod ColumnLaws
pub mod ValuesLaws
pub mod ReplyLaws
pub mod LineLaws
