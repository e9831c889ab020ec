-- What this crate says for itself alone: no public contract names it, neither by itself nor through what it names.
pub mod Rows
pub mod Begun
