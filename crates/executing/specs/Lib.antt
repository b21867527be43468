pub mod Manual
pub mod Executed
pub mod Claims
