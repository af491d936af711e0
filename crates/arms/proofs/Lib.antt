-- Laws of the arms. Assumes nothing.
pub mod Guards
