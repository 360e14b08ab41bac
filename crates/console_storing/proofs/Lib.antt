-- the image's digits
pub mod Digits
-- the image read
pub mod Reading
-- the two lengths that one command reads into
pub mod Fitting
