pub mod Tuples
pub mod Columns
pub mod Domains
pub mod Keys
pub mod Database
pub mod Clean
pub mod Rows
