-- what the entry points of images promise
pub mod Entries
