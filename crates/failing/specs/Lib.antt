-- What a constraint asks, and its failure in bytes. Assumes nothing: these are definitions.
pub mod Failing
