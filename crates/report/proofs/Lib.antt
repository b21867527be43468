pub mod Files
pub mod Reading
