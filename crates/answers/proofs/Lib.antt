pub mod Done
pub mod Order
pub mod Refused
