-- what the entry points of the hand-out round promise
pub mod Entries
