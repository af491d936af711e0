-- Laws of the argument walk, the merge and the operand walk. Assumes nothing.
pub mod Binds
pub mod Lists
pub mod Args
pub mod Operands
pub mod Links
