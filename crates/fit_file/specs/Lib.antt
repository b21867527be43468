pub mod FitFile
pub mod AsCoded
