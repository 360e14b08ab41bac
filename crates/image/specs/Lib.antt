-- document 01 on writing and reading an image
pub mod Calls
