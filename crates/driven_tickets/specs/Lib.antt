pub mod Acts
pub mod Alone
pub mod Commuting
pub mod Desk
pub mod Tickets
