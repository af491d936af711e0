-- Laws of the log. Assumes nothing.
pub mod Writing
pub mod Text
