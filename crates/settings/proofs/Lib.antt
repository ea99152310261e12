pub mod Told
pub mod Ranges
pub mod RoundTrip
pub mod Refusals
