pub mod KeptLemmas
pub mod TableLemmas
