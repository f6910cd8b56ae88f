pub mod Climb
pub mod Seniors
pub mod Climbing
