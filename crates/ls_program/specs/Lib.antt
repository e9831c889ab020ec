pub mod Commands
pub mod Endings
