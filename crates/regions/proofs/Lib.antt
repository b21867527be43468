pub mod Rows
pub mod Tables
pub mod Opened
pub mod Examples
