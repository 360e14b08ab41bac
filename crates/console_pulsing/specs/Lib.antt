-- what each of these commands does
pub mod Lines
pub mod Calls
