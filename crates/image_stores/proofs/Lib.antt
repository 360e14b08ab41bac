-- laws of stores
pub mod Stored
