pub mod Words
pub mod Lanes
pub mod PlainLaws
