pub mod Faults
pub mod Xml
pub mod Unread
pub mod own
