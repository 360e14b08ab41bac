-- what a host does over many calls: storing and resuming, jobs over stops, rounds over stops
pub mod Images
pub mod Stops
pub mod Rounds
