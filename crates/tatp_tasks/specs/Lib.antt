pub mod Judging
pub mod Loads
pub mod Plans
pub mod Populations
pub mod Tasks
