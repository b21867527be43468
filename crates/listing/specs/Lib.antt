pub mod Listing
pub mod AsCoded
