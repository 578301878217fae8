pub mod Rules
pub mod Sealed
pub mod Verdict
