pub mod Pairs
pub mod Relation
pub mod Symbols
pub mod ToldApart
