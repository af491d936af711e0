-- A state whose bindings and marks are histories, as the state whose rows say the same. Assumes nothing: these are definitions.
pub mod Room
pub mod History
pub mod Holding
pub mod Past
pub mod Rows
