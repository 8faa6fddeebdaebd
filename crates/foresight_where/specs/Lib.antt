pub mod Endings
pub mod Chosen
pub mod Reading
pub mod Showing
pub mod Runs
