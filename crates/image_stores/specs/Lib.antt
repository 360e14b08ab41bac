-- a name for what is stored before the job, which inner contracts use
pub mod Stored
