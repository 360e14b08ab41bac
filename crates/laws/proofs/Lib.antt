-- laws on bits and lists
pub mod Digits
pub mod Bits
pub mod Lists
pub mod Walk
