pub mod Alls
pub mod Chain
pub mod NameChecks
pub mod CheckTurns
pub mod CheckWays
