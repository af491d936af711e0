-- What the proofs of instantiation cite. Assumes nothing.
pub mod TvarLaws
pub mod ArgLaws
pub mod MadeLaws
pub mod DownLaws
pub mod JoinLaws
