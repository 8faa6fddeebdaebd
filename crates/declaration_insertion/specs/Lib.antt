pub mod Facts
pub mod Program
pub mod Promises
pub mod Shown
pub use Rattle.byte_ends.specs.Ends
