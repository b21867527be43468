pub mod Heads
pub mod Scopes
