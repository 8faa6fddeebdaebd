pub mod Lines
pub mod Swaps
