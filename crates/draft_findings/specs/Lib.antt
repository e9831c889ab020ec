pub mod Copies
pub mod Reports
pub mod Ends
pub mod Words
