mod Texts
pub mod Watches
pub mod Room
pub mod Counted
pub mod Decided
pub mod AsReplay
