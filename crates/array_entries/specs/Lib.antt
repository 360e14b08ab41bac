-- what the entry points' contracts cite
pub mod Numbers
