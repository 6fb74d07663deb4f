pub mod Deciding
pub mod FormLaws
