pub mod Table
pub mod Judge
pub mod Places
pub mod Index
pub mod Kept
pub mod Computing
pub mod Examples
