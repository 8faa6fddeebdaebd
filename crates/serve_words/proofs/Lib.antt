pub mod NumberLemmas
pub mod Lines
