pub mod Chains
pub mod Asked
pub mod Outcomes
pub mod Laws
pub mod Layers
pub mod Arrivals
pub mod Walks
pub mod Inside
