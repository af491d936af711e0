-- Laws of a job's lines. Assumes nothing.
pub mod Jobs
