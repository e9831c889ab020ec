pub mod Same
pub mod Machine
pub mod Counts
pub mod Journal
pub mod Laws
pub mod Progress
pub mod Outs
pub mod Client
