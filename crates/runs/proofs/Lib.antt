pub mod SameLaws
pub mod PlainLaws
