pub mod Hearing
pub mod Input
pub mod Known
pub mod Listening
pub mod Pieces
pub mod Whole
