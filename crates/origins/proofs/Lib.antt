pub mod RunLaws
pub mod AlignLaws
pub mod PlaceLaws
pub mod RowLaws
