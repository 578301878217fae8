mod Cases
mod FileModels
mod ImageModels
mod Bases
pub mod SliceBytes
mod Rounding
mod FileParts
mod SegmentPages
pub mod PageMaps
pub mod HiddenEntries
pub mod SectionBytes
pub mod CommandMeanings
pub mod SectionsAlone
mod Ranks
mod InImage
pub mod Verdicts
pub mod Unambiguous
