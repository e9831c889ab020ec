pub mod Ends
pub mod Written
pub mod Settled
pub mod Askers
pub mod Answered
pub mod Runs
pub mod Steps
