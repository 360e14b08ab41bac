-- laws of the plain machine
pub mod Bus
