pub mod Packed
pub mod Rules
pub mod Entries
pub mod Writing
pub mod Levels
