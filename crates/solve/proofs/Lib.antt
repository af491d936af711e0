-- What SV's first step leaves, what the report asks, and SV's answer. Assumes nothing.
pub mod Left
pub mod Ready
pub mod Answers
