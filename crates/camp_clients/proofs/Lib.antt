mod Words
pub mod Asking
pub mod Comparing
pub mod SectionSteps
pub mod Gathering
pub mod Histories
pub mod SynchronisedRuns
pub mod OneSection
pub mod Opening
pub mod OpeningAlone
pub mod Positions
pub mod Single
pub mod Vectors
