pub mod Nulled
