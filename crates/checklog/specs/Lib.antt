-- What the two engines' comparison says. Assumes nothing: these are definitions.
pub mod Checked
