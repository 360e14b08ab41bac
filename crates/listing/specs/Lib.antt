-- what is printed
pub mod Lists
