-- document 02, request a, with the tables of source document 001: cells, words, selectors, registers, operations, refusals
pub mod Cells
pub mod Words
pub mod Selectors
pub mod Registers
pub mod Operations
pub mod Refusals
