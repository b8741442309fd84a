pub mod Names
pub mod Numbers
pub mod Texts
pub mod Words
