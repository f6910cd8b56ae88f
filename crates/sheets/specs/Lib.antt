pub mod Lines
pub mod Columns
pub mod Slips
pub mod Faults
pub mod Reading
pub mod Fields
pub mod Writing
pub mod Promise
