pub mod FromPlace
pub mod InPlace
