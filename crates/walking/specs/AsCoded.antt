pub mod Turn
pub mod InPlace
