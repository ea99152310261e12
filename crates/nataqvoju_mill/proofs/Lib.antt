pub mod Decided
pub mod Reset
mod Named
