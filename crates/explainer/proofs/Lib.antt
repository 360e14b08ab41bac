-- that each answer is true, and the steps of the loops
pub mod Selecting
pub mod Statuses
pub mod Settling
pub mod Answers
