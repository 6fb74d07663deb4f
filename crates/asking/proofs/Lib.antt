pub mod AskTurns
pub mod OfferTurns
