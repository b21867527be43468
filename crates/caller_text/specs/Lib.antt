pub mod CallerText
