-- XP's bytes told level by level, and the walks that come to them. Assumes nothing.
pub mod Told
pub mod Walks
