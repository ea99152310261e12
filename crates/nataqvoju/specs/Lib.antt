pub mod Lent
pub mod Reset
