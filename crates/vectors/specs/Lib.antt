pub mod BoundExamples
pub mod FigureExamples
pub mod OfferExamples
