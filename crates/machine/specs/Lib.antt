-- document 01 on the machine and one pulse, in its order
pub mod Panel
pub mod Machine
pub mod Search
pub mod Cells
pub mod Pulse
pub mod Resolution
pub mod Refusals
pub mod Words
