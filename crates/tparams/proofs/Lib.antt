-- What the proofs of substitution cite. Assumes nothing.
pub mod PairLaws
pub mod DownLaws
