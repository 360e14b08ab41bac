-- laws of the host's loop, and the theorem on it: WholeRound
pub mod Lists
pub mod Answering
pub mod Working
pub mod Counted
pub mod Whole
