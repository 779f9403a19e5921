pub mod Deciding
pub mod Handing
pub mod Promises
pub mod Views
