pub mod Kind
pub mod Language
pub mod Params
pub mod Legend
pub mod Initialize
pub mod Session
pub mod Bodies
