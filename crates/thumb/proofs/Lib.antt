pub mod Counts
pub mod Rows
pub mod Instructions
pub mod Opened
pub mod Examples
pub mod Apart
