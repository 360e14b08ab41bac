-- what a word of a line says, how a line falls into words, and texts as bytes
pub mod Ascii
pub mod Numbers
pub mod Rows
pub mod Words
