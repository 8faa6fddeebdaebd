pub mod Filling
pub mod Shares
pub mod Wholes
pub mod Entries
pub mod Halls
pub mod Counting
pub mod Free
pub use Rattle.admission_book.proofs.Foreknown
