pub mod Slices
pub mod Where
pub mod Faults
pub mod Runs
