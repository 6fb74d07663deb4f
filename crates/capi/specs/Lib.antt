pub mod Calls
pub mod Sources
