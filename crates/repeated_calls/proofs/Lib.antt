pub mod Lasts
pub mod Calling
