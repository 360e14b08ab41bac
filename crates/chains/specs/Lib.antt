-- names for the steps of the loops over the cells of one word
pub mod Walks
