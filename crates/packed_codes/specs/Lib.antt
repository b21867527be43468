pub mod PackedCodes
pub mod Lists
pub mod Chain
pub mod AsCoded
