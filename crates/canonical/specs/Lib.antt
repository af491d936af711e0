-- What stands for the variables that were met. Assumes nothing: these are definitions.
pub mod Named
