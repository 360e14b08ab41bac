-- laws of the calls and of sections; then the theorems
pub mod WriteCalls
pub mod ReadCalls
pub mod Sections
pub mod RoundTrip
pub mod Unique
pub mod Cuts
pub mod TooMany
