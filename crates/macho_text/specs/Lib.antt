pub mod Stream
pub mod Number
pub mod Name
pub mod Writer
