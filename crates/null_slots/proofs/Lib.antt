pub mod NulledLaws
pub mod MarkLaws
