-- What the public calls give. Assumes nothing: these are definitions.
pub mod Public
pub use Rattle.split.specs.Rest
