pub mod Opened
pub mod Fit
pub mod Lines
pub mod Printing
pub mod Sizes
pub mod Listed
