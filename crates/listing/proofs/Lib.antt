-- laws that the functions' proofs cite, and how long a list can be
pub mod Answers
pub mod Lengths
pub mod Loops
pub mod Room
