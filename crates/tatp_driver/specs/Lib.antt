pub mod DrawnCall
pub mod DrawnCalls
pub mod DrawnWords
