-- What a turn's reading leaves. Assumes nothing: these are definitions.
pub mod Filling
