pub mod Asks
pub mod Changes
pub mod Ended
