pub mod Crossing
pub mod Endings
mod Filling
mod BoxedDesk
mod DeskDrops
mod PutFronts
pub mod Serving
mod Symbols
