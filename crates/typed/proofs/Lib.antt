pub mod TypedLaws
pub mod RecipeLaws
pub mod GradedLaws
pub mod ReadBack
pub mod LengthLaws
pub mod WindowLaws
