-- What the answers about a shape stand for in the definition. Assumes nothing: these are definitions.
pub mod Parts
