-- Laws of the variables that were met. Assumes nothing.
pub mod Numbers
