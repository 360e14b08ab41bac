-- laws that the functions' proofs cite
pub mod Sums
pub mod Extremes
pub mod Telling
