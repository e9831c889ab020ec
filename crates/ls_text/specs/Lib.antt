pub mod Lines
pub mod Cut
pub mod Positions
pub mod Edits
pub mod Marks
pub mod own
