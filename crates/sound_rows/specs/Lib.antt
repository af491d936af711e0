-- The tests of rows. Assumes nothing: these are definitions.
pub mod Rows
