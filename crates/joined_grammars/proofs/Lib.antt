pub mod LineLaws
pub mod JoinLaws
pub mod RepeatLaws
pub mod WordLaws
