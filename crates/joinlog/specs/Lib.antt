-- What a turn of the program leaves. Assumes nothing: these are definitions.
pub mod Turns
