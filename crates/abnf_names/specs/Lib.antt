pub mod Said
pub mod Shown
pub mod Places
pub mod Rules
pub mod Excerpts
pub mod Sections
pub mod own
