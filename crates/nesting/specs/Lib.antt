pub mod Outline
pub mod Nested
pub mod Shams
pub mod AsCoded
