pub mod Anew
pub mod Door
pub mod Stands
pub mod Faults
pub mod own
