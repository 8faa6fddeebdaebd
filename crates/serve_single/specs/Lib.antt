pub mod Auditing
pub mod Runs
pub mod Serving
pub mod Tables
