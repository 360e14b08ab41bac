-- what the sweeps do to each word
pub mod Rules
