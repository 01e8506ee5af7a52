pub mod ElementLaws
pub mod PairLaws
pub mod PartLaws
pub mod SearchLaws
