-- The sets that are kept, and rules as the definition has them. Assumes nothing: these are definitions.
pub mod Kept
pub mod Rules
