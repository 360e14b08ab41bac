-- lines of the input
pub mod Input
-- a line that is read piece by piece
pub mod Pieces
-- which lines are answered
pub mod Silence
