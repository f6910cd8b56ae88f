pub mod Answering
pub mod PairFacts
