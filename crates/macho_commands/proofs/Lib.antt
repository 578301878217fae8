pub mod CommandWalks
pub mod Given
pub mod Parts
pub mod SoundCommands
pub mod ThreadStates
pub mod ZeroCounts
