pub mod FirstRow
pub mod LineFronts
pub mod RuleLines
pub mod Saying
pub mod Spotting
