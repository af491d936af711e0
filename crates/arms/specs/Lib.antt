-- What an arm that the code chose stands for. Assumes nothing: these are definitions.
pub mod Arms
