pub mod Table
pub mod Sentence
pub mod Shown
pub mod Rendered
pub mod Exist
pub mod own
