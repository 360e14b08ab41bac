-- laws that the functions' proofs cite, and that a bad line changes nothing
pub mod Arms
pub mod BadLines
pub mod Others
