pub mod Fitting
pub mod Exactly
pub mod AsCoded
