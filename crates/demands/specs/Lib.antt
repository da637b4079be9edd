-- The definitions that the theorems of this crate use.
pub mod Cases
pub mod Numbers
pub mod Typed
pub mod Roundings
pub mod Finding
pub mod Counting
pub mod OneAnswer
