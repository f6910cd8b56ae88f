pub mod Pairs
pub mod Listed
pub mod PairProps
