mod Numbers
pub mod Histories
pub mod Keeps
