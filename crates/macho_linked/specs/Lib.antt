pub mod Rules
pub mod Harmless
pub mod Located
pub mod LookedUp
pub mod Dyld
pub mod Linked
pub mod Verdict
