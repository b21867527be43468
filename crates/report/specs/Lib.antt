pub mod Report
pub mod AsCoded
