-- Laws of a record's fields. Assumes nothing.
pub mod Placing
pub mod Forms
pub mod Bytes
