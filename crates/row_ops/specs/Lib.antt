pub mod Doable
