-- What XP answers, told from the state, and what the walks of the code leave. Assumes nothing: these are definitions.
pub mod Told
pub mod Walks
