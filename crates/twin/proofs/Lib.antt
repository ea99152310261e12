pub mod Portions
pub mod Verdicts
