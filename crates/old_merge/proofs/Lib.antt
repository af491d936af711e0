-- How the steps of a merge spend the room for entries, and the mark of its fresh variable. Assumes nothing.
pub mod Room
pub mod Fresh
