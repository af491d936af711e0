-- What a run left, as the definition's result, and what its answer leaves. Assumes nothing: these are definitions.
pub mod Ran
pub mod Answered
