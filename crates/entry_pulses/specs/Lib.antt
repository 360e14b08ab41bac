-- what the entry points of the panel, the pulses and resolution promise
pub mod Entries
