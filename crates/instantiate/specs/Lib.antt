-- The declarations that stand in words and parameter bytes, and one argument's step of IN. Assumes nothing: these are definitions.
pub mod Known
pub mod Args
