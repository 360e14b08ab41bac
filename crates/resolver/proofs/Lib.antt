-- laws of resolution
pub mod Lowest
pub mod Merging
pub mod Sizes
