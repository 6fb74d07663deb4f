pub mod Deciding
pub mod Stores
pub mod Openings
pub mod LevelArrays
