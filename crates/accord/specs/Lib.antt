pub mod Tables
pub mod Agree
pub mod Settling
pub mod Accord
