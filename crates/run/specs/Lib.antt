-- What the run of a record leaves, once its types are placed. Assumes nothing: these are definitions.
pub mod Runs
pub mod Dispatch
