pub mod RunTurns
