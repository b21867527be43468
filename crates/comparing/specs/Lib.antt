pub mod Items
pub mod AsCoded
