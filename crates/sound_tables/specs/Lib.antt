-- The tests of tables. Assumes nothing: these are definitions.
pub mod Tables
