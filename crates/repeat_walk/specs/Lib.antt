pub mod Repeats
pub mod Outers
