pub mod ChainHeader
pub mod ChainStarts
pub mod ChainImports
pub mod ChainPointers
pub mod ChainPages
pub mod Chains
pub mod ChainDyld
