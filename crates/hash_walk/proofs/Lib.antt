pub mod WalkingLaws
