pub mod Planned
pub mod Whole
pub mod Standing
pub mod Lines
pub mod Exact
pub mod Behind
pub mod Examples
