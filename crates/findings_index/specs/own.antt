-- What this crate says for itself alone: no public contract names it, neither by itself nor through what it names.
pub mod Adding
pub mod HeadRoles
pub mod Ways
pub mod Flags
pub mod Pending
