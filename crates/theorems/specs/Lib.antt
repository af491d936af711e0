-- What RD answers, told without building. Assumes nothing: these are definitions.
pub mod ReadySpelled
