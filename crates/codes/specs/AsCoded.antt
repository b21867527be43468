pub mod Rows
pub mod Sizing
