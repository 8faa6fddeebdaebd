pub mod Answers
pub mod Laws
pub mod PlaceText
pub mod Refusals
pub mod RuleTable
pub mod Spots
pub use Rattle.text_lines.specs.Text
