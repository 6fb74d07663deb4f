pub mod Lists
pub mod Members
pub mod Over
pub mod Gather
pub mod Tests
pub mod Reading
pub mod Bits
pub mod Text
