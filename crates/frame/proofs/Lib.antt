pub mod Opened
pub mod Order
pub mod Within
pub mod Records
pub mod Finding
pub mod Bounds
pub mod Inner
