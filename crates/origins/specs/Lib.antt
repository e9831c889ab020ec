pub mod Origins
pub mod own
