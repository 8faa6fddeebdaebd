pub mod Changes
pub mod Ends
pub mod Memory
pub mod Texts
pub mod Waiting
