pub mod XmlLaws
pub mod UnreadLaws
pub mod ByteLaws
pub mod MarkLaws
pub mod PieceLaws
