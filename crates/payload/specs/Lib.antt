-- What an answer shows, and what it is. Assumes nothing: these are definitions.
pub mod Payload
