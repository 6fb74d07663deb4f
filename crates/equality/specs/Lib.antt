pub mod Same
pub mod Checks
