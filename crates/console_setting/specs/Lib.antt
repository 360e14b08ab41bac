-- what each of these commands does
pub mod Settings
