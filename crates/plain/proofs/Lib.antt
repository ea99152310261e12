pub mod Walk
pub mod Kept
