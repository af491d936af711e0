-- Laws of ready_tvars, as the proofs of the code cite them. Assumes nothing.
pub mod Within
pub mod Coming
pub mod Run
