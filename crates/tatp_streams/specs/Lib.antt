pub mod Writing
pub mod LineReading
