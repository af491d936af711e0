-- The whole lent state, words and parameter bytes: what it holds, how a state is written, and the test for a sound one. Assumes nothing: these are definitions.
pub mod Chains
pub mod Lent
