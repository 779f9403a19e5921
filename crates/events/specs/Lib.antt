pub mod Answers
pub mod Fields
pub mod Letters
pub mod Streams
pub mod Tags
pub mod Writing
