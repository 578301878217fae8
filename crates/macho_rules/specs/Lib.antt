pub mod Mapped
pub mod Check
pub mod Survey
pub mod Verdict
pub mod Source
pub mod Mapping
pub mod FilePart
pub mod Profile
