pub mod Opened
pub mod At
pub mod Page
pub mod Order
pub mod Shapes
