pub mod Outlined
pub mod Stripped
pub mod Covered
pub mod AsCoded
