pub mod Accepted
pub mod FitsNode
pub mod Says
pub mod Text
pub mod Read
pub mod Agreed
pub mod own
