-- Laws of the public calls. Assumes nothing.
pub mod Laws
pub mod Fresh
