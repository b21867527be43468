pub mod Texts
pub mod Inputs
