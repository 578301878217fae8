pub mod Rules
pub mod Unambiguous
pub mod Verdict
