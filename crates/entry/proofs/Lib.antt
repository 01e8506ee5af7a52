pub mod SizeLaws
pub mod AnswerLaws
pub mod EntryLaws
