-- names for the image's parts, which inner contracts use
pub mod Parts
