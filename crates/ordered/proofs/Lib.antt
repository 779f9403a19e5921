pub mod Changes
pub mod Keys
pub mod Lasts
pub mod Moves
pub mod Retains
pub mod Rises
pub mod Sorts
