-- Laws of tests joined, of a test of every number below a bound, and of `|`. Assumes nothing.
pub mod Below
pub mod Ors
