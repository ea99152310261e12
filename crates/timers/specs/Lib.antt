pub mod State
pub mod Formed
pub mod Registers
pub mod Tick
pub mod Call
pub mod Calls
pub mod Inner
pub mod Sheet
