-- RD's sums and bytes, as the proofs of the code cite them. Assumes nothing.
pub mod Told
