mod Counting
mod AtHome
mod OneCaller
pub mod OneMap
