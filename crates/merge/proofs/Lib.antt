-- Laws of answers, and of the steps of a merge. Assumes nothing.
pub mod Answers
pub mod Laws
