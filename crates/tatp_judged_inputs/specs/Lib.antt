pub mod HistoryTexts
pub mod Views
pub mod Reading
pub mod LineNumbers
pub mod Judged
pub mod RowsAtEnd
pub mod Judging
