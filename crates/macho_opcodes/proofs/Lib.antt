pub mod Operands
pub mod OpcodeCases
pub mod Within
pub mod StepChains
pub mod StreamWalks
pub mod NearSegments
pub mod TableSurveys
mod Reaches
pub mod Prefixes
