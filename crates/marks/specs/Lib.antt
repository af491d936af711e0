-- What a record's mark stands for in the definition. Assumes nothing: these are definitions.
pub mod Marks
