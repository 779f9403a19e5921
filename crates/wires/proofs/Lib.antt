pub mod LineLaws
pub mod Growths
pub mod Spaces
