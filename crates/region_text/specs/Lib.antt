pub mod RegionText
pub mod AsCoded
