-- What the sums and the answer of RD and CN stand for in the definition. Assumes nothing: these are definitions.
pub mod Spell
