-- document 01 on the hand-out round: show and answer
pub mod Round
pub mod Handout
