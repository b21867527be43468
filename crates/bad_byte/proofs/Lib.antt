pub mod Numbers
pub mod Codes
pub mod Lists
pub mod Records
pub mod Limits
pub mod Examples
