pub mod Keeping
pub mod PlainDesks
