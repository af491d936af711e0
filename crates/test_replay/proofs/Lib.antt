pub mod EdgeLimits
pub mod EdgeRules
pub mod EdgeStates
pub mod EdgeStreams
pub mod Jobs1
pub mod Jobs2
pub mod Jobs3
