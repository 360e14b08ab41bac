-- laws of what callers hand over and are told
pub mod Numbers
pub mod Recorded
