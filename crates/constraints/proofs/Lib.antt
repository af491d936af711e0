-- Laws of the constraints' steps. Assumes nothing.
pub mod Defaults
pub mod Emptied
pub mod Solved
pub mod Laws
pub mod Lacks
