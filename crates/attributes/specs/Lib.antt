pub mod Attributes
pub mod Known
