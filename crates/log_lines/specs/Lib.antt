-- What the log's functions leave in a buffer. Assumes nothing: these are definitions.
pub mod Line
