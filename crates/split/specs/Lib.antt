-- What the splitter gives. Assumes nothing: these are definitions.
pub mod Rest
