mod FewSpans
mod IndirectWalks
mod NearAddresses
mod ObsoleteTables
pub mod RelocationWalks
mod SectionNumbers
mod SymbolWalks
pub mod Near
