pub mod Settings
pub mod Record
pub mod Sheet
