pub mod Keeps
pub mod Language
pub mod Parentheses
pub mod SameTree
pub use Rattle.syntax_grammar.specs.Words
