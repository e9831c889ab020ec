pub mod WalkLaws
pub mod EndLaws
pub mod FloodLaws
