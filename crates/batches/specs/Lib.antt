pub mod Stampings
