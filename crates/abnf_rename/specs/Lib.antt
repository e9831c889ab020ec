pub mod Parts
pub mod Lines
pub mod Rules
pub mod Text
