pub mod Sizes
pub mod Passing
pub mod SkipEnds
