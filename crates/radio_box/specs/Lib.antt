pub mod Carryings
pub mod Samples
