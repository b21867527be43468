pub mod Buffer
pub mod Pieces
pub mod Lengths
pub mod Written
pub mod Reading
pub mod Decoding
pub mod Chain
