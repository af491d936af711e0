-- What the answers of the constraints stand for. Assumes nothing: these are definitions.
pub mod Solve
pub mod Emptied
pub mod Lacking
