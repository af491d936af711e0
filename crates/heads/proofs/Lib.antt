-- Laws of a type without its parts. Assumes nothing.
pub mod Rest
pub mod Named
pub mod Heads
