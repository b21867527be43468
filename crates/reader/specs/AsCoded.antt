pub mod Reading
pub mod Skip
