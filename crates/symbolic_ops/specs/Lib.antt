pub mod ArgSorts
pub mod Foresight
pub mod Instantiate
pub mod Order
pub mod Symbol
pub mod Matching
pub mod Commuting
