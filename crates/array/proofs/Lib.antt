-- laws of the array's definitions
pub mod Selectors
pub mod Refusals
pub mod Walks
pub mod Words
pub mod Calls
