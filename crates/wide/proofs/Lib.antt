-- what ties the word-wide machine to the machine's definitions
pub mod Accepted
pub mod Lists
pub mod Swept
pub mod Answers
