pub mod Sliced
pub mod Columns
