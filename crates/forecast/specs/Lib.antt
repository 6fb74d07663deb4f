pub mod Forecasts
pub mod Bounds
pub mod RunFigures
