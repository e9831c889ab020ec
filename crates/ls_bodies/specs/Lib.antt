pub mod Refusal
pub mod Positions
pub mod Tokens
pub mod Edits
pub mod Bodies
