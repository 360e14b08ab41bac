-- laws of the array's commands
pub mod Loads
pub mod BadLines
