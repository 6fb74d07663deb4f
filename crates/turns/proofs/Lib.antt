pub mod Weighing
pub mod StartWritten
pub mod StartSession
pub mod OpeningTurns
