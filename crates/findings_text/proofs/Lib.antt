pub mod Grown
pub mod GapLaws
pub mod PrintLaws
pub mod HeadLaws
pub mod RuleLines
pub mod RuleLaws
pub mod ToldLaws
pub mod UnreadLaws
