pub mod Actions
pub mod Keys
pub mod Masks
pub mod Numbers
pub mod Reaching
pub mod Tables
pub mod Texts
