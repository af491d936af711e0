-- What KP keeps and how the rows slide. Assumes nothing: these are definitions.
pub mod Slid
pub mod Marked
pub mod Numbered
pub mod Placed
pub mod Keeps
