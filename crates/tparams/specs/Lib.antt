-- Ids and arguments in two arrays, as the definition's pairs. Assumes nothing: these are definitions.
pub mod Pairs
pub mod Made
