-- That the room never falls short, over several steps. Assumes nothing.
pub mod Room
