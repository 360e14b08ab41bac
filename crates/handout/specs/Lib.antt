-- a whole round, from a list of verdicts
pub mod Whole
