pub mod Region
pub mod Table
pub mod AsCoded
