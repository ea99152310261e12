pub mod Twin
pub mod Sheet
