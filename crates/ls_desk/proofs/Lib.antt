pub mod Entries
pub mod Grows
pub mod Events
pub mod Jobs
pub mod Rules
pub mod Sends
pub mod Told
