pub mod Counts
pub mod Entries
pub mod GoodFiles
pub mod MemFiles
pub mod MemSink
pub mod Reading
pub mod Refusals
pub mod Written
