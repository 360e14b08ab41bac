-- laws that the functions' proofs cite
pub mod Letters
pub mod Loads
