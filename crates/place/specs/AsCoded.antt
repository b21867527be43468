pub mod Look
pub mod Placed
