pub mod Wanted
pub mod Found
pub mod own
