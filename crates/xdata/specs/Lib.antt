pub mod Xdata
pub mod Scopes
pub mod AsCoded
