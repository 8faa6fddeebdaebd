pub mod Deciding
pub mod Desk
pub mod Judging
pub mod Keeping
pub mod Noted
pub mod Replaying
pub mod Running
