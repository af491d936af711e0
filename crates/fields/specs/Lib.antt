-- What a record read from bytes, its types placed, stands for in the definition. Assumes nothing: these are definitions.
pub mod Noded
