-- laws that the functions' proofs cite
pub mod Growing
pub mod Onward
