pub mod Good
pub mod Ranks
pub mod Places
pub mod Verdicts
pub mod Sealed
