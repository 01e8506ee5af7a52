pub mod AnswerLaws
pub mod OuterLaws
pub mod RepeatLaws
