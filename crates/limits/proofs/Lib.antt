-- Laws of when a record is taken on. Assumes nothing.
pub mod Laws
