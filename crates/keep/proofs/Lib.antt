-- Laws of marks, of new numbers and of rows that slide down. Assumes nothing.
pub mod Sliding
pub mod Marking
pub mod Reaching
pub mod Numbering
pub mod Placing
pub mod Clearing
pub mod Leaving
pub mod Keeping
