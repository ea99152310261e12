pub mod Screen
pub mod Mill
pub mod Runs
pub mod Story
pub mod Sheet
pub mod Clauses
