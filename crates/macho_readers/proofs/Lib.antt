mod Found
mod Optional
mod FatEntries
pub mod Platforms
pub mod NameNumbers
pub mod NameTails
pub mod SameNames
pub mod NamedSegments
pub mod NamedSections
pub mod SlicePages
pub mod Lasts
mod Counts
pub mod Numbers
pub mod NamedFixups
pub mod Shifted
pub mod SectionAlone
