pub mod BitLaws
pub mod OnesLaws
pub mod PackLaws
pub mod PartLaws
