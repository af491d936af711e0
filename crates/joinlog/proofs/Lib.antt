-- Laws that the functions' proofs cite. Assumes nothing.
pub mod Moves
pub mod Logs
pub mod Ends
pub mod Chain
pub mod Whole
