pub mod Listed
pub mod Run
pub mod Answers
