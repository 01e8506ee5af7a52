pub mod Trayed
