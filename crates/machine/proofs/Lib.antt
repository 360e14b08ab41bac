-- laws of the machine's definitions, each for every width
pub mod Loads
pub mod Machine
pub mod Search
pub mod Cells
pub mod Codes
pub mod Sums
pub mod Words
pub mod Refusals
pub mod Masks
