pub mod Fronts
pub mod Histories
pub mod Adding
pub mod Leads
pub mod Journals
pub mod Tells
pub mod Stops
pub mod Steps
