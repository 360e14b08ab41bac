-- what is promised of the array of three-state cells: a reader opens these files
pub mod Again
pub mod Calls
pub mod Demand1
pub mod Demand2
pub mod Exact
pub mod ExactCalls
pub mod Figures
pub mod Retired
pub mod Settled
pub mod TakesAny
