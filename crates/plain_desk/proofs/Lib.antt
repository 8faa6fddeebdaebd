pub mod Filling
pub mod Serving
