pub mod Choosing
pub mod Still
pub mod Cards
pub mod Records
pub mod Beginning
pub mod Settled
