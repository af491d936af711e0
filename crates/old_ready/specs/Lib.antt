-- What ready_tvars comes to on its way. Assumes nothing: these are definitions.
pub mod Ready
