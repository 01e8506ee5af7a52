pub mod TallyLaws
pub mod ReadBack
