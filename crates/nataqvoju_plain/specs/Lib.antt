pub mod Lent
pub mod Kinds
