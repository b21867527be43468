pub mod Bits
pub mod Units
pub mod Refusals
pub mod Answer
