pub mod Places
pub mod Replays
pub mod Taken
pub mod Ordered
pub mod Once
pub mod Same
pub mod ShortTexts
pub mod Steps
