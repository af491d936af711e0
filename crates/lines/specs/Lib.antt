-- What a stream's lines leave. Assumes nothing: these are definitions.
pub mod Lists
