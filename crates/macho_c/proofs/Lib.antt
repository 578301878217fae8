pub mod AgreeNames
pub mod ArchNames
pub mod BadSlices
pub mod Edges
pub mod Entries
pub mod FoundExports
pub mod NamedAlike
pub mod NamedData
pub mod NearestSymbol
pub mod Relocated
pub mod Started
pub mod PlacedBlobs
mod ThreadEntries
