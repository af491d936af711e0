-- Laws of checklog. Assumes nothing.
pub mod Same
pub mod Turns
pub mod Wrote
