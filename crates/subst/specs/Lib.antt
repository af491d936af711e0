-- What the answers of substitution stand for in the definition. Assumes nothing: these are definitions.
pub mod Answers
