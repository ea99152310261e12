mod Text
mod Order
pub mod Numbers
pub mod Whole
