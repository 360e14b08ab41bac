-- what inner contracts of the word-wide machine cite
pub mod Plan
