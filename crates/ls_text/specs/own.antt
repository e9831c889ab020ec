-- What this crate says for itself alone: no public contract names it, neither by itself nor through what it names.
pub mod Alike
pub mod Chunks
pub mod Counts
pub mod Parts
pub mod Spots
