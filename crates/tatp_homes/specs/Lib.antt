pub mod Changes
pub mod Home
pub mod Cells
pub mod Loading
