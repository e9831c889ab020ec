pub mod Drafts
pub mod Insertions
pub mod Places
pub mod Renames
