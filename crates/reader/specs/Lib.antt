-- What the reader's answers stand for in the definition. Assumes nothing: these are definitions.
pub mod Taken
