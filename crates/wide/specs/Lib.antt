-- what the word-wide machine's inner contracts cite
pub mod Accepted
