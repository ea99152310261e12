pub mod Argument
pub mod Counts
pub mod Number
