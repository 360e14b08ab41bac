-- laws that the functions' proofs cite
pub mod Steps
pub mod Passing
pub mod Adding
pub mod Words
