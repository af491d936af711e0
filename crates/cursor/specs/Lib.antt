-- What a reader's answer is in the definition. Assumes nothing: these are definitions.
pub mod Words
