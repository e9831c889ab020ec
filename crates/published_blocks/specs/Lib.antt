pub mod Lines
pub mod Runs
pub mod Published
pub mod own
