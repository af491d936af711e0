-- The lent words as the definition's state, and what each primitive does to it. Assumes nothing: these are definitions.
pub mod Tab
pub mod Rows
pub mod Out
pub mod State
pub mod Touched
pub mod Known
pub mod Encode
pub mod Layout
pub mod Did
pub mod Moved
