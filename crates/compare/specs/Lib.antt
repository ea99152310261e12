pub mod Code
pub mod Same
pub mod Engines
