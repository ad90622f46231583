-- Definitions that only private functions use.
pub mod Alongside
pub mod ByPatch
pub mod ByIndex
pub mod ChangedFiles
pub mod Finding
pub mod Foresight
pub mod Graphing
pub mod Growing
pub mod Moving
pub mod OpenPairs
pub mod PartsOfOne
pub mod Seeing
pub mod Independence
pub mod Inverting
pub mod Reporting
pub mod Walking
