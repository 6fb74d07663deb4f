pub mod CanBegin
pub mod RowExamples
