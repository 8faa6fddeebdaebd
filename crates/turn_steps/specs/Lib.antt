pub mod Limits
pub mod Maps
pub mod Tied
pub mod Steps
pub mod Passes
pub mod Closings
pub use Rattle.atomic_table.specs.Table
pub use Rattle.atomic_table.specs.Seated
