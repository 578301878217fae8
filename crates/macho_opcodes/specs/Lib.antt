pub mod Steps
pub mod Cursor
pub mod Streams
pub mod Images
