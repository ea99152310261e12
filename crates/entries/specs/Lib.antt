pub mod Word
pub mod Pin
pub mod Table
pub mod Inner
pub mod Decision
pub mod Strike
