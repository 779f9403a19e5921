pub mod Kinds
pub mod Places
pub mod Rules
pub mod Shown
pub mod KindLaws
pub mod ListLaws
pub mod PlaceLaws
