pub mod Scripts
pub mod Serving
pub mod Asking
pub mod Leading
pub mod Numbers
pub mod Rounds
pub mod Runnable
