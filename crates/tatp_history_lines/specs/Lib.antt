pub mod Words
pub mod ReplyValues
pub mod Recordings
pub mod Open
pub mod Lines
pub mod LineText
