-- Laws of shapes, by tag, by part, as nodes hold them, and gone down level by level, as the code's proofs cite them. Assumes nothing.
pub mod Tags
pub mod Parts
pub mod Nodes
pub mod Levels
pub mod Going
