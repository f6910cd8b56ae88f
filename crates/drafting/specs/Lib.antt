pub mod Keeping
pub mod Models
pub mod Pairing
pub mod Within
