-- How jobs end. The theorems are in Ends (every kind), Greatest, Smallest, ScaledAdd and Product; the rest leads up to them.

-- one word in one command
pub mod Agreeing
pub mod Shapes
pub mod Looking
pub mod Parts
pub mod Adding
-- the whole machine, and steps one after the other
pub mod Machines
pub mod Searches
pub mod Steps
pub mod Fields
pub mod Starts
-- scaled add and product
pub mod Passing
pub mod Visits
pub mod ScaledPlaces
pub mod Sums
pub mod ScaledAdd
pub mod ProductPlaces
pub mod Pairs
pub mod ProductSums
pub mod Orders
pub mod Product
-- greatest and smallest
pub mod Narrowing
pub mod Best
pub mod Trials
pub mod Extreme
pub mod Plans
pub mod Greatest
pub mod Smallest
-- every kind
pub mod Ends
pub mod Cases
pub mod Firsts
