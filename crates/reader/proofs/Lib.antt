-- Laws of the reader. Assumes nothing.
pub mod Parts
pub mod Loop
