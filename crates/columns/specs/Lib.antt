-- The state in columns beside the state in rows. Assumes nothing: these are definitions.
pub mod Columns
pub mod Public
