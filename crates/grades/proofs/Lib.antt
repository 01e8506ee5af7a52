pub mod LengthLaws
pub mod CallLaws
