pub mod CallLaws
pub mod FoundLaws
pub mod ValueLaws
