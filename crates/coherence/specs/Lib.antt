pub mod Fitting
pub mod Checks
