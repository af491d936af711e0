-- Laws of the sets that are kept, and of 9 and 16. Assumes nothing.
pub mod Laws
pub mod Sets
pub mod Turn
pub mod Checked
pub mod Asking
