-- The sums of a type's takings, and the walk over its parts. Assumes nothing.
pub mod Takings
pub mod Walk
pub mod Others
