pub mod Text
pub mod Overlay
