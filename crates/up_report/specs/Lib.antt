pub mod Answers
pub mod ClauseReading
pub mod ClauseTexts
pub mod Ranges
pub mod Reading
pub mod Reports
pub mod Texts
pub mod Writing
