pub mod Outputs
pub mod Sending
pub mod Serving
pub mod Whole
pub mod Writing
