-- The tests of fields. Assumes nothing: these are definitions.
pub mod Fields
