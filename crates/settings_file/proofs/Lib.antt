pub mod Outputs
pub mod Says
