pub mod Held
pub mod Ports
