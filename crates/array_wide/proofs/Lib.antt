-- the rules of each word are the definitions; the walks, word by word; what the sweeps, and an operation, answer and leave
pub mod Bridge
pub mod Gather
pub mod Answers
pub mod Sweeps
