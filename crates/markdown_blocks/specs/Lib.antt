pub mod Fences
pub mod Unread
pub mod own
