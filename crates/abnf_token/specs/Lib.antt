pub mod Classes
pub mod Rest
pub mod Tokens
pub mod Numbers
pub mod Folded
pub mod Marks
pub mod Renamed
pub mod own
