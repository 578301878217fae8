pub mod Arch
pub mod Line
pub mod LineParts
pub mod Layout
pub mod Text
