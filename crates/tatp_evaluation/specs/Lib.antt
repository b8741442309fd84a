pub mod Destinations
pub mod Failures
