-- what each command for the array does, and which command a line is
pub mod Commands
pub mod Obeying
