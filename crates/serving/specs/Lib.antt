-- what stands after a line
pub mod Taking
