pub mod ArgumentLaws
pub mod ContentLaws
pub mod DraftLaws
pub mod KnownLaws
