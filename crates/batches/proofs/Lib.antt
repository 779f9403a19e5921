pub mod Stampings
pub mod Walks
