-- laws of show and answer, and the theorem on any accepted answers: Handout
pub mod Marks
pub mod Passing
pub mod Round
pub mod Responders
pub mod Kept
pub mod Handout
