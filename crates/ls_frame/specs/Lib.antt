pub mod Frames
pub mod Faults
pub mod Feeds
pub mod own
