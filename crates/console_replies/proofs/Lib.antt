-- laws that the functions' proofs cite
pub mod Loops
pub mod Lengths
pub mod Room
