pub mod Above
pub mod BelowSome
pub mod Orders
pub mod PutValues
