pub mod Watch
pub mod Parts
