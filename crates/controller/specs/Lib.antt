pub mod State
pub mod Window
pub mod Steps
pub mod Inner
pub mod Calls
pub mod Sheet
