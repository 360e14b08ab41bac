-- document 01 on the calls start and step
pub mod Calls
pub mod Runs
