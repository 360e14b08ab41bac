-- which register a number names, and what it takes
pub mod Numbered
