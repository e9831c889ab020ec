pub mod Ends
pub mod Places
pub mod History
pub mod Told
pub mod Laws
pub mod Progress
pub mod own
