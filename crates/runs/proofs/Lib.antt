pub mod Going
pub mod Running
