-- laws of walks over one list beside another
pub mod Along
pub mod Blocks
pub mod Searched
