-- What the numbers of names stand for in the definition. Assumes nothing: these are definitions.
pub mod Names
