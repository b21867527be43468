pub mod Turn
pub mod Lined
