pub mod Decided
mod Named
