-- an operation as a line writes it
pub mod Choices
