-- What SV leaves, and what it asks. Assumes nothing: these are definitions.
pub mod Solves
