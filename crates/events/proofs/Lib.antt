pub mod FieldLaws
pub mod Puts
pub mod Readings
pub mod StreamLaws
pub mod Values
