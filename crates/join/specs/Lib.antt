-- What the argument walk asks and answers. Assumes nothing: these are definitions.
pub mod Join
