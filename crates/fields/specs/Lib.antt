-- a word's syllables as fields of one number
pub mod Fields
pub mod Codes
pub mod Tops
