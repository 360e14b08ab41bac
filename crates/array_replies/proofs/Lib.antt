-- laws that the functions' proofs cite, and how long an answer can be
pub mod Answers
pub mod Loops
pub mod Room
