-- the entry points' theorems: a reader opens these files
pub mod Entered
pub mod Entering
pub mod Kept
pub mod Lowest
pub mod Retired
pub mod Settled
pub mod TakesAny
