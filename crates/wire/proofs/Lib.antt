pub mod Writing
pub mod Lengths
pub mod Reading
pub mod Spelling
mod StdWords
