pub mod Jobs
pub mod Sessions
pub mod Sheets
pub mod Steps
pub mod Ends
pub mod Lanes
