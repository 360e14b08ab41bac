-- laws of lines that ask for an operation
pub mod Names
pub mod Operations
