pub mod Accepted
pub mod Counted
pub mod SymbolGroups
pub mod LinkeditData
