pub mod Area
pub mod Narrow
