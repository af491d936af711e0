-- What one record of a sound state leaves. Assumes nothing: these are definitions.
pub mod Trusted
pub mod Replies
