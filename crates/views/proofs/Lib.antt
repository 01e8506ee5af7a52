pub mod CallLaws
pub mod ShowLaws
pub mod TripLaws
