-- What the answers about chains' ends and levels stand for in the definition. Assumes nothing: these are definitions.
pub mod Known
pub mod Ends
pub mod Itself
pub mod Leads
