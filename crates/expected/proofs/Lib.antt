pub mod Equal
