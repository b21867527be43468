pub mod Scanning
pub mod Comparing
pub mod Passing
