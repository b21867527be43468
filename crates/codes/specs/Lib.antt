pub mod Table
pub mod Code
pub mod Condition
pub mod AsCoded
