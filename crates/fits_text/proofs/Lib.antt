pub mod Answered
pub mod Offsets
