pub mod Contracts
pub mod Answers
pub mod Told
pub mod HostCalls
pub mod HostSteps
pub mod HostCommits
pub mod HostAsks
pub mod HostExamples
