-- what the theorems on a job's end say
pub mod Ends
