-- what the sweeps' contracts cite
pub mod Along
pub mod Rules
