pub mod Accepted
pub mod Examples
