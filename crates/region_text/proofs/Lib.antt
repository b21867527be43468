pub mod Opened
pub mod Parts
pub mod Nothing
pub mod Sizes
pub mod Examples
