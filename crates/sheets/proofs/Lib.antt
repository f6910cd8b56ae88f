pub mod Splitting
pub mod Joining
pub mod Counted
pub mod Properly
pub mod Parts
pub mod Round
