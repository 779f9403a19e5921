pub mod Rings
pub mod Rows
pub mod RowLines
pub mod Fits
