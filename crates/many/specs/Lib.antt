-- What a pair of MJ leaves, and what all of them do. Assumes nothing: these are definitions.
pub mod Turns
