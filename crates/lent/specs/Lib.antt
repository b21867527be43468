pub mod Little
pub mod Lent
pub mod Parts
