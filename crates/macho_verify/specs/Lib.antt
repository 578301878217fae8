pub mod Cdhashes
pub mod Judge
pub mod Words
