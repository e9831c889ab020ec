pub mod FoundLaws
mod LineLaws
