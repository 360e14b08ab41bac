-- Over many calls: what a host stored is what it resumes (Images), jobs over stops (Jobs), rounds over stops (Standing, Rounds, Book), two side by side
-- (Both), and the calls that leave a round alone (Elsewhere, Leaving) and the held job in order (Staying); the rest leads up to them.
pub mod Below
pub mod Images
pub mod Typed
pub mod Fits
pub mod Jobs
pub mod Elsewhere
pub mod Leaving
pub mod Staying
pub mod Shadow
pub mod Counting
pub mod Standing
pub mod Rounds
pub mod Book
pub mod Both
