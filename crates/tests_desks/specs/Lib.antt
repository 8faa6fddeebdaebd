pub mod BookRows
pub mod HallRows
pub mod TwoPuts
