pub mod BerthLaws
pub mod Lists
pub mod PlaceLaws
pub mod ShownLaws
