-- A pair of MJ is answered as the definition has it, and so are all of them, one behind the other. Assumes nothing.
pub mod Bytes
pub mod Answered
pub mod Turns
