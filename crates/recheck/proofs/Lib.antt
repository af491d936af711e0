-- Laws of the slow engine's record: its runs, its mark, its step, and what the call gives. Assumes nothing.
pub mod Running
pub mod Marked
pub mod Public
