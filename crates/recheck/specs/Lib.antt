-- What the record around the slow engine gives, and what its step leaves. Assumes nothing: these are definitions.
pub mod Check
pub mod Stepped
