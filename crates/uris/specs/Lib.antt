pub mod Uris
