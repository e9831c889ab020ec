pub mod Marked
pub mod Absent
pub mod OneBlock
pub mod Around
pub mod Passing
pub mod Unique
