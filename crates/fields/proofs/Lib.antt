-- laws of whole-word arithmetic over syllables
pub mod Sums
pub mod Above
pub mod Shape
pub mod Blocks
pub mod Codes
pub mod Lowest
pub mod Turned
pub mod Settings
pub mod Search
pub mod WordSum
pub mod Syllables
pub mod Mixing
pub mod Reader
pub mod Tested
