pub mod Alone
pub mod Literals
pub mod Mentions
pub mod Marks
pub mod Source
pub mod Bounds
pub mod Rising
