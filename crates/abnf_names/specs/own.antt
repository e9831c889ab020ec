-- What this crate says for itself alone: no public contract names it, neither by itself nor through what it names.
pub mod GrammarCode
pub mod Inside
pub mod Passes
pub mod Search
pub mod Users
