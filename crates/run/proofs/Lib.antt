-- What a step's answer comes to as a run's, and the fields of the state that a run leaves. Assumes nothing.
pub mod Laws
pub mod Bytes
pub mod Placed
pub mod Arms
pub mod PlacedBytes
pub mod Inside
