-- Laws of the definition's substitution, as the code's proofs cite them. Assumes nothing.
pub mod Lists
pub mod Laws
pub mod Walk
pub mod Unfold
