-- bits of numbers, and lists
pub mod Bits
pub mod Lists
