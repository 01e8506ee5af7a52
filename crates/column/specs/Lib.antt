pub mod Put
pub mod Rows
pub mod Answers
pub mod Columns
pub mod Outputs
pub mod Front
