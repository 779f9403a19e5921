pub mod Journals
pub mod Bags
pub mod Fits
