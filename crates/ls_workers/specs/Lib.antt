pub mod Count
pub mod Ends
pub mod Jobs
pub mod Refusals
pub mod Seats
