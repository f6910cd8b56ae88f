pub mod Rows
pub mod Tables
pub mod Steps
pub mod Exact
pub mod Laws
pub mod Within
