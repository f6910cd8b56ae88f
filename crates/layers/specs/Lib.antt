pub mod Answering
pub mod Housed
pub mod Layers
pub mod Shown
pub mod HouseSets
