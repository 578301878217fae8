pub mod ExportTrie
pub mod ExportWalk
pub mod ExportNodes
pub mod Exports
pub mod ExportLaw
