pub mod Commands
pub mod Endings
pub mod Runs
pub mod Serving
pub mod Arriving
pub mod Replied
