pub mod HeldParts
pub mod Giving
pub mod Numbering
pub mod Known
pub mod Plain
pub mod Sorted
