-- What the refusals stand for in the definition. Assumes nothing: these are definitions.
pub mod Refusals
