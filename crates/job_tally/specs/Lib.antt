-- document 01 on the number of pulses a job takes
pub mod Totals
