-- What the report of failures asks of the constraints. Assumes nothing: these are definitions.
pub mod Report
