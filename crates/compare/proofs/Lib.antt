pub mod Equal
pub mod Derived
pub mod Engines
