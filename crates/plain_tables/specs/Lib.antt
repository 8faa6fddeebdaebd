pub mod Containers
pub mod Views
