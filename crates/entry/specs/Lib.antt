pub mod Entry
pub mod Inner
pub mod Misfits
pub mod Decoded
