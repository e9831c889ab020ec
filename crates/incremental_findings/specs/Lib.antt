pub mod own
pub mod Known
pub mod Recent
