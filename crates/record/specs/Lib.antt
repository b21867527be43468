pub mod Record
pub mod AsCoded
