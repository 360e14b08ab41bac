-- what the explainer answers, and when each of its answers is true
pub mod Reasons
pub mod Truth
