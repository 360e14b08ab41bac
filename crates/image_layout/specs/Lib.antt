-- document 01 on the image's bytes
pub mod Sizes
pub mod Format
pub mod Reading
