pub mod Failing
pub mod Audits
pub mod Printing
