pub mod Reopened
pub mod Joined
pub mod Judged
