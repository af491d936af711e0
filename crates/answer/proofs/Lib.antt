-- Laws of the answers. Assumes nothing.
pub mod Settling
pub mod Cases
pub mod Calls
pub mod Growing
