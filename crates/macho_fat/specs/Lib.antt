pub mod Slices
pub mod TableWalk
