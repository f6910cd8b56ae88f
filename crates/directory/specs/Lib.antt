pub mod SetWords
pub mod Heard
