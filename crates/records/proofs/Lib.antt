pub mod Bits
pub mod MaskLaws
pub mod Ranks
pub mod Ports
pub mod ReachLaws
