pub mod Decided
pub mod Reset
mod Served
mod Tested
mod Rows
mod Apart
mod Lending
