pub mod Placing
pub mod Looking
pub mod Answered
