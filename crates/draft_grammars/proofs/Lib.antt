pub mod CarryLaws
pub mod GatherLaws
pub mod InsertionLaws
pub mod ReferenceLaws
pub mod RenameLaws
pub mod ScalarLaws
