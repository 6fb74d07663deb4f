pub mod Former
pub mod Meeting
pub mod Rejects
pub mod Ends
pub mod FormerExamples
