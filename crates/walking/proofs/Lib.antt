pub mod Opened
pub mod Next
pub mod Turns
pub mod Loop
pub mod Order
