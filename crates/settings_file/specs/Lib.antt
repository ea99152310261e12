pub mod Output
pub mod Sheet
