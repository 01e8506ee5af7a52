pub mod SignedLaws
pub mod PlaceLaws
pub mod SliceLaws
pub mod StepLaws
