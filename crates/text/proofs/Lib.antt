pub mod Opened
pub mod Overlaid
pub mod Numbers
