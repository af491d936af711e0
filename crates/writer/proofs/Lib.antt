-- Laws of the writer. Assumes nothing.
pub mod Put
pub mod Heads
pub mod Walk
pub mod Turns
