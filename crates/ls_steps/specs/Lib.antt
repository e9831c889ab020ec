pub mod Runs
pub mod Plain
pub mod Comes
pub mod own
