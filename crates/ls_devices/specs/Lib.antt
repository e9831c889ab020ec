pub mod Devices
pub mod Ends
pub mod Input
pub mod Reading
pub mod own
