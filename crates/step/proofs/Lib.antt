-- What a record leaves of a sound state: its declarations and their bytes, what was placed, what was read, its answer, and the step. Assumes nothing.
pub mod Saved
pub mod Rows
pub mod Placing
pub mod Standing
pub mod Reading
pub mod Keeping
pub mod Replying
pub mod Stepping
pub mod Sets
