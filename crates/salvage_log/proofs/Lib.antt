mod Telling
pub mod Reports
pub mod Outputs
