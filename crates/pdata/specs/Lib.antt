pub mod Pdata
