pub mod Number
pub mod Asked
pub mod Words
