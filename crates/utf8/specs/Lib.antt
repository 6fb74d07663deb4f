pub mod Utf8
pub mod Sets
pub mod Beginnings
pub mod Forms
