-- What follows from what a record was read into. Assumes nothing: these are definitions.
pub mod Verdict
