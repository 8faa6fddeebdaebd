pub mod AuditedFiles
pub mod ClientFiles
mod Exits
pub mod Inputs
pub mod Loading
pub use Rattle.handler_check.proofs.Counting
pub use Rattle.handler_syntax.proofs.TextsKept
