pub mod Registers
pub mod Step
pub mod AsCoded
