-- The rows of parameter bytes, and the tables' tests joined. Assumes nothing.
pub mod Params
pub mod Tables
