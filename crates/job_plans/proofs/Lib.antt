-- laws that the functions' proofs cite
pub mod Fair
pub mod Shifts
pub mod Places
