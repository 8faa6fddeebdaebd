pub mod Bounded
pub mod Held
pub mod Runs
pub mod Codes
