pub mod Changes
pub mod Limits
