pub mod Parts
pub mod RowLines
pub mod Work
pub mod Refusing
pub mod Verdicts
