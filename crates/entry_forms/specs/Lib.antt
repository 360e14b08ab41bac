-- what callers in other languages hand over and are told
pub mod Numbers
pub mod Records
