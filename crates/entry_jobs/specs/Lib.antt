-- what the entry points of jobs promise
pub mod Entries
