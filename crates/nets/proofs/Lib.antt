pub mod Clearing
pub mod Deciding
pub mod Fetching
pub mod Handing
pub mod Keeping
pub mod Opening
pub mod Ports
pub mod Releasing
