-- laws of bytes, and of what they say
pub mod Format
pub mod Reading
