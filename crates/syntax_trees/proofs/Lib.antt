pub mod Inductions
pub mod Mentions
pub mod Sizes
pub mod Statements
