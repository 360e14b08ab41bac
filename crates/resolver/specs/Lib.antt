-- what resolving answers, and what the parts of scan and tree promise
pub mod Answers
