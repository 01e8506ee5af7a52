pub mod Columns
pub mod Slots
pub mod Bytes
pub mod Numbers
pub mod Chains
