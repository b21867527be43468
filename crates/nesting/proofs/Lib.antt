pub mod Opened
pub mod Examples
pub mod Sorting
pub mod Nesting
pub mod Shams
pub mod Orders
