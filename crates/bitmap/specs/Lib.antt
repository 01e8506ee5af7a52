pub mod Push
pub mod Reads
