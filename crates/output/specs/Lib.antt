-- a number's digits, and a text put into a buffer
pub mod Digits
pub mod Puts
