pub mod Chain
pub mod Each
pub mod Turns
pub mod Sameness
pub mod Bound
