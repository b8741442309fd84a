pub mod Asked
pub mod CommandLine
pub mod Numbers
pub mod Options
