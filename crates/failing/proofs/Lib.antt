-- Laws of a failure's bytes, and of their length. Assumes nothing.
pub mod Sizes
pub mod Report
