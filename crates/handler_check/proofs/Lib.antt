pub mod Cases
pub mod Codes
pub mod Counting
pub mod Fine
pub mod FewTables
pub mod Finding
pub mod Held
pub mod Inductions
pub mod Meaning
pub mod Numbers
pub mod Resolving
pub mod Scans
pub mod Walks
pub mod ExcessLemmas
pub mod Within
pub use Rattle.check_meaning.proofs.Bounded
pub use Rattle.syntax_trees.proofs.Mentions
pub use Rattle.check_meaning.proofs.Held as CheckHeld
pub use Rattle.check_meaning.proofs.Runs
pub use Rattle.syntax_trees.proofs.Statements
pub use Rattle.syntax_trees.proofs.Inductions as SyntaxInductions
pub mod Files
pub mod Finds
pub mod Firsts
pub mod Texts
