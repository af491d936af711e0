-- Laws of the lent state, and of its test. Assumes nothing.
pub mod Fields
pub mod Joined
pub mod Encode
pub mod Rows
pub mod Shapes
pub mod Rowwise
pub mod Chains
pub mod Tested
pub mod Owned
pub mod Lays
pub mod Decoded
pub mod Links
