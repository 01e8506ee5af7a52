pub mod RowLaws
pub mod WordLaws
