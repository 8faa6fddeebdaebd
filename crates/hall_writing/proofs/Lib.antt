pub mod Closing
pub mod Progress
pub mod Sessions
pub mod Sheets
pub mod Since
mod Taken
pub mod Carrying
