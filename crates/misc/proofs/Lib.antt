pub mod Words
pub mod FreeTurns
pub mod MiscTurns
pub mod BeginTurns
