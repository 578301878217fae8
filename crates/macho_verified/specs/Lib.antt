pub mod Image
pub mod Accepted
