-- laws that the functions' proofs cite
pub mod Digits
pub mod Puts
