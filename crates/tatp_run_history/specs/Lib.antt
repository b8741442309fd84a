pub mod ClientLines
pub mod Interleaving
pub mod Telling
pub mod Parts
