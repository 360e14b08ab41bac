-- laws that the functions' proofs cite
pub mod Pairs
pub mod Reading
pub mod Rows
pub mod Runs
