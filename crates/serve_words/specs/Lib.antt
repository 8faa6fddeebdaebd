pub mod Commands
pub mod Numbers
pub mod Draws
pub mod Session
pub mod Summary
