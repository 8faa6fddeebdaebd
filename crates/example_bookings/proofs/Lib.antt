pub mod Dialogues
pub mod Lawful
