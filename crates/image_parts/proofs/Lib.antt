-- laws of fields
pub mod Parts
