-- What this crate says for itself alone: no public contract names it, neither by itself nor through what it names.
pub mod Form
pub mod Order
pub mod Queue
pub mod Search
pub mod Sweeps
pub mod Users
pub mod Walk
