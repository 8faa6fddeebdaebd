pub mod Canonical
pub mod CanonicalWords
pub mod Countable
pub mod Points
pub mod Lines
pub mod Put
pub mod Readable
pub mod Writing
