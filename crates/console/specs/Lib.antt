-- which command a line is
pub mod Obeying
