-- laws that the functions' proofs cite
pub mod Phases
pub mod Taken
pub mod Calls
