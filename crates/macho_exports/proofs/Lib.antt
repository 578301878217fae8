pub mod ExportTries
pub mod ExportNodes
pub mod ExportSurveys
pub mod ExportTables
pub mod Destinations
pub mod ExportLaws
