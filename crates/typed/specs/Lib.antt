pub mod Typed
pub mod Tallies
pub mod Flat
