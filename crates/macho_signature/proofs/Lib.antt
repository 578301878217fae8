pub mod Surveys
pub mod Images
pub mod Pages
pub mod Signed
pub mod SuperblobTests
