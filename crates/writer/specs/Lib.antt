-- What the writer's functions leave in a buffer, and what they ask. Assumes nothing: these are definitions.
pub mod Bytes
