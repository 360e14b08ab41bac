-- which lines are answered
pub mod Taking
