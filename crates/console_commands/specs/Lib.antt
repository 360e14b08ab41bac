-- the board, how a command ends, and a job as a line writes it
pub mod Boards
pub mod Ends
pub mod Jobs
