pub mod Callers
pub mod NextTickets
pub mod OneReply
