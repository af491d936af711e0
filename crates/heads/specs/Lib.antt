-- The fields of a type as read. Assumes nothing: these are definitions.
pub mod Fields
