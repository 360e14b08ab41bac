-- document 01 on jobs: what a job is, its places and its commands
pub mod Fields
pub mod Places
pub mod Commands
