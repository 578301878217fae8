pub mod Superblobs
pub mod CodeDirectories
pub mod Signature
pub mod Surveys
pub mod Signed
