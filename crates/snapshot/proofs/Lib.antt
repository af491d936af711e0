-- Laws of the snapshot's return. Assumes nothing.
pub mod Parts
pub mod Copying
pub mod Saving
pub mod Growing
pub mod Back
pub mod Tails
pub mod Exact
