pub mod Words
pub mod IntegerLists
