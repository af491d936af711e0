-- Laws of the record reader. Assumes nothing.
pub mod Onward
pub mod Pairs
pub mod Many
pub mod Names
pub mod Whole
