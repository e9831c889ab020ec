pub mod Joined
pub mod Repeats
pub mod own
