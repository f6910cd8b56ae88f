pub mod Banks
pub mod Codes
pub mod Joined
