pub mod Word
pub mod Members
pub mod Model
pub mod Order
pub mod Drafting
pub mod Sets
pub mod Bases
