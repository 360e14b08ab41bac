-- what a panel as the code hands it on comes to, in each arm of the entry points
pub mod Entries
