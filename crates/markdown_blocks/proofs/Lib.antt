pub mod FenceLaws
pub mod AttributeLaws
pub mod FrontLaws
pub mod CutLaws
pub mod ProseLaws
