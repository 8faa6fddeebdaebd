pub mod Steps
pub mod Exits
pub mod ExprSteps
pub mod CallSteps
pub mod Loops
pub mod ListLoops
pub mod ParamSteps
