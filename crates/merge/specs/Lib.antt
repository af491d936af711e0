-- The parts of join_tvar before and after its inner join, and what their answers stand for. Assumes nothing: these are definitions.
pub mod Merge
