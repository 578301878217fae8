pub mod Text
pub mod Judge
pub mod Run
pub mod Where
