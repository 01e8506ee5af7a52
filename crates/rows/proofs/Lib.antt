pub mod CellLaws
pub mod RunLaws
