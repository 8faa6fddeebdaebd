pub mod Ahead
pub mod Bounds
pub mod Code
pub mod Dialogue
pub mod Within
pub mod Keeps
