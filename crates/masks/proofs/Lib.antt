-- what ties the masks to the machine's definitions
pub mod Words
mod Asked
pub mod Plan
