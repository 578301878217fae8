pub mod Slots
pub mod SignatureSlot
pub mod Identity
pub mod DirectoryAgree
pub mod FirstDirectories
pub mod Models
