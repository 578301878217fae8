pub mod Commands
pub mod Content
pub mod Described
pub mod Registers
pub mod Sound
pub mod States
pub mod Survey
