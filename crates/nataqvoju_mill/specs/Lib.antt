pub mod Lent
pub mod Kinds
pub mod Reset
