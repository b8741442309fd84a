pub mod Drawn
pub mod Workloads
