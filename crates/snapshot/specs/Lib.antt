-- What a snapshot holds, and what its return does. Assumes nothing: these are definitions.
pub mod Snap
pub mod Copied
pub mod Back
pub mod Noted
