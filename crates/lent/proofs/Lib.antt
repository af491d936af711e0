-- Laws of what is lent. Assumes nothing.
pub mod Passed
