pub mod Status
pub mod Verdict
