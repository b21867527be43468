pub mod Judged
pub mod AsCoded
