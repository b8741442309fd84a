pub mod Reports
pub mod RunHistories
pub mod SettledRuns
pub mod Benching
pub mod Works
