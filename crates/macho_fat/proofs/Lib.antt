pub mod Faults
pub mod FirstEntries
pub mod Listed
pub mod Magics
pub mod SharedSpans
